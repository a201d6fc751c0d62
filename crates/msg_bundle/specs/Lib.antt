pub mod BundleFault
pub mod BundleForm
pub mod BundleRules
pub mod Sources
pub mod Translations
pub mod ReadsBundle
pub mod BundleFits
pub mod BundlesAlike
