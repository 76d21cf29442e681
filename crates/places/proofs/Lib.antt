pub mod PlaceLaws
pub mod RaiseLaws
