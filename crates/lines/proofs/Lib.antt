-- Laws that the proofs of several functions cite: of lines as bytes, of lines as `Display` writes them, and of an entry in hexadecimal.
mod LineLaws
mod DisplayLaws
mod HexLaws
