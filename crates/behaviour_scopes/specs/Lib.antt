pub mod Grown
pub mod Places
pub mod PlacesView
pub mod ResolverState
pub mod ResolverView
