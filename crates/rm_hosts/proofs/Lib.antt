mod Examples
mod Taking
