mod Asking
mod Digits
mod Form
mod Given
mod Parsed
mod Steps
