pub mod AllTexts
