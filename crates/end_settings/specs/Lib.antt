pub mod EndSettings
pub mod Lists
pub mod ConfigValue
