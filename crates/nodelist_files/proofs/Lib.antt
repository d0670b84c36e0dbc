mod Alone
mod Compiled
mod InPlace
mod IndexBytes
mod Limits
mod Readable
mod Staged
mod Whole
