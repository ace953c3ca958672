-- Laws of words of ranks: their parts (WordParts), the plain rank and the mirror a letter at a time (RankLoops).
pub mod WordParts
pub mod RankLoops
