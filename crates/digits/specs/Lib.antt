pub mod Digits
pub mod DigitLaws
