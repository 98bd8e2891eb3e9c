-- Laws of permits.
pub mod Permitting
