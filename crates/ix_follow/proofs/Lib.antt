mod Entries
mod Prefixes
mod Feeding
