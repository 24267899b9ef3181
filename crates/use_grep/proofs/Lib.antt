mod InParts
mod Lines
mod Near
mod Parts
mod Searched
