pub mod PartSteps
pub mod SaidSteps
pub mod DeviceSteps
pub mod NumberSteps
pub mod GivenSteps
pub mod PlainText
pub mod JsonPrint
pub mod JsonFound
pub mod JsonBack
pub mod OrderSteps
pub mod RuleSteps
pub mod LineRule
mod PartsWritten
pub mod DecimalSteps
mod Digits
mod Pieces
mod PieceKinds
mod NumberPieces
mod PairPieces
mod LocaleTexts
mod LocalePieces
mod ConfigLaw
mod DecimalTexts
mod NearSteps
mod ComplexLaw
mod NumberTexts
mod FloatLaw
mod XmlForms
mod XmlLaw
pub mod FormatsLaw
pub mod ListSteps
pub mod ListedWords
pub mod NumberWords
pub mod LocaleWords
pub mod DevicesNamed
pub mod SetLaw
pub mod WrittenSteps
