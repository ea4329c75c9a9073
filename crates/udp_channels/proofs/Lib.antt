mod SocketLemmas
mod BindLemmas
