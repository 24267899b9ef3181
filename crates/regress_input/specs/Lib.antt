pub mod Utf8
pub mod CharAndByteReadsFromOffset
pub mod ByteTextsAreUtf8
pub mod Utf16CharactersAtOffsets
pub mod TextSpellingAndOffsetLimit
pub mod TextCodeUnits
