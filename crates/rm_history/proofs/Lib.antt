mod Examples
mod Rings
mod Begun
