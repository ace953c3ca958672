-- What a reader of this must believe of the record reader: the records that it gives.
pub mod Records
