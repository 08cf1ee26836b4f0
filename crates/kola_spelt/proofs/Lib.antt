pub mod StringsBack
pub mod TokensSpelt
