mod Quoting
mod Items
mod Statements
mod ScriptsRead
mod TableSteps
mod Words
mod FaultSteps
