-- The texts that a page was handed: Handed. What a page shows of a desk: Sights. What it tells of a desk: Told. The page's own words: PageWords.
pub mod Handed
pub mod PageWords
pub mod Sights
pub mod Told
