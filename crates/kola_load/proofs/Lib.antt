pub mod JsonData
pub mod JsonViews
pub mod MemberNames
pub mod JsonParts
pub mod ClassPlaces
pub mod IdTables
pub mod Taken
pub mod SeenKeys
pub mod ValueLoops
pub mod KeyPlaces
pub mod KeyLists
pub mod Phases
pub mod FirstFault
pub mod NoFault
pub mod Accepted
pub mod Walks
pub mod Answering
mod LoadingExamples
pub mod SchemaSymbols
pub mod SchemaLaws
pub mod SchemaWhole
mod SchemaExamples
pub mod SchemaLoops
pub mod FirstMarkLaws
pub mod MarkLoops
pub mod PlainLaws
pub mod OneSchema
mod SchemaFaultExamples
