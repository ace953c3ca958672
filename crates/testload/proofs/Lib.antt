-- Cases: the definitions computed. Drawn: the letters drawn. Items: what each byte of a test load is. Theorems: the claims of document 02, K8.
pub mod Cases
pub mod Drawn
pub mod Items
pub mod Theorems
