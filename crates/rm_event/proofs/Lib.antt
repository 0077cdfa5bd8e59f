mod OneFiring
mod Fires
mod SameCells
mod Assigned
