pub mod AttributeSteps
pub mod WordSteps
pub mod SettingSteps
pub mod GroupSteps
pub mod PrefsSteps
