pub mod Commands
