-- What a clearing with two adds after it promises.
pub mod TwoAdds
