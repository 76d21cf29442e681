pub mod EngineLaws
