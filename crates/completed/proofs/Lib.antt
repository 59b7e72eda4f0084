-- The laws of what is shown: places in the lists, the observed outstandings of a row, and rows of accepted triangles.
pub mod PlacesInLists
pub mod OutstandingsOfRow
pub mod AcceptedRows
