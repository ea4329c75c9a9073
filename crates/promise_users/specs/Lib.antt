pub mod PartsByPlace
pub mod PdusByPlace
pub mod TelegramsByNumber
pub mod EndsByPlace
pub mod CountsByChannel
pub mod AgesAndOpenings
pub mod TookByPlace
pub mod EndsAgain
