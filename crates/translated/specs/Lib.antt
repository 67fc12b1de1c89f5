pub mod Hand
pub mod Outlook
