-- Trees and their parts, as they are written.
pub mod CharactersWritten
pub mod CommandsWritten
pub mod ExprsWritten
pub mod NodesWritten
pub mod PartsWritten
pub mod PrintsWritten
pub mod TemplatesWritten
pub mod TextsWritten
pub mod TreesWritten
pub mod TypesWritten
pub mod Ints
pub mod Names
pub mod Reading
pub mod Strings
pub mod Values
