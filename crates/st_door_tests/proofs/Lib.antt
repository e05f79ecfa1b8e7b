-- Scripts, doors and lines computed on examples by the definitions.
pub mod WorkedScripts
pub mod WorkedTurns
pub mod WorkedTexts
