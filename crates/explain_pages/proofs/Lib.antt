mod Connectors
mod Counting
mod Failing
mod Others
mod Reaching
