pub mod PutLaws
pub mod Written
pub mod FlatLaws
pub mod CrossPlaces
