pub mod Laws
pub mod Chain
pub mod Flat
pub mod RecordLaws
pub mod ByteSums
pub mod Numbers
pub mod KindLaws
