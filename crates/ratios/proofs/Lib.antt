-- Laws that serve several functions, from below, and that a triangle has one development.
pub mod FirstYear
pub mod DevelopmentYear
pub mod AllRatios
pub mod OneDevelopment
