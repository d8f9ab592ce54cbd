-- A quoted text is read as what it means (`TextsComplete`), and what is read as one is spelled so (`TextsSound`). `TextSteps` has what an
-- octet does within one, `TextElements` and `TextOrders` the elements of which it consists, one by one and one behind the other.
pub mod Characters
pub mod Encodings
pub mod TextElements
pub mod TextOrders
pub mod TextSteps
pub mod TextsComplete
pub mod TextsRead
pub mod TextsSound
