pub mod ChannelHistory
pub mod Memory
