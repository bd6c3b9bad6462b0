pub mod AsciiTexts
pub mod Blanks
pub mod Numbers
pub mod Quotes
pub mod Unquotes
