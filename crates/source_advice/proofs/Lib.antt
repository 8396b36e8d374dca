mod Cutting
mod Explaining
