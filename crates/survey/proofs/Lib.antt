-- The reading of a survey line: laws of texts, of a form's value, of a form and of a whole line; what we print, and that settings which are not refused have
-- one line that is read; the theorems; computed cases.
pub mod TextLaws
pub mod ByteLaws
pub mod MirrorNames
pub mod ValueLaws
pub mod FormLaws
pub mod LineEnds
pub mod LineRead
pub mod LineThere
pub mod Written
pub mod OneLine
pub mod Theorems
pub mod Cases
