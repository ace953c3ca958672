-- What a reader must believe of the settings: the grounds for refusing and how a call reports them; letters, k and mirror; the limits (Limits); copies with T for U (Copies). Last,
-- what functions ask of a table of ranks (RankTables), on which no sentence of document 01 rests.
pub mod Grounds
pub mod Given
pub mod Settings
pub mod Copies
pub mod Limits
pub mod RankTables
