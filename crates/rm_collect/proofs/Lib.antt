mod Standing
mod Becoming
mod InRange
mod AfterSets
mod Assigned
mod Turning
mod Nearest
