-- What the kernels ask of settings (Kernels), and of which settings a coder is (Coders).
pub mod Kernels
pub mod Coders
