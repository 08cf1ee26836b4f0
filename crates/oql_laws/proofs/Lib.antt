mod UnplacedExamples
mod Sounding
mod Places
mod Printable
mod PrintableLaws
mod TextsPrintable
mod SpeltBy
mod Bare
mod SpeltParts
mod QuerySpelt
pub mod PrintedAgain
