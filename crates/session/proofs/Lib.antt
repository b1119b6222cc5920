-- `Feeding`: bytes fed in several calls are one write. `Taken`: a count that fits a byte.
mod Feeding
mod Taken
