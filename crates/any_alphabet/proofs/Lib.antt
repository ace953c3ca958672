-- Laws of the kernel for every alphabet: the code of one letter (OneLetter), the first window (FirstWindows), and the windows after it (WindowLaws).
pub mod OneLetter
pub mod FirstWindows
pub mod WindowLaws
