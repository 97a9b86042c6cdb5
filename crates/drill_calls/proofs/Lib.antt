-- Laws that the proofs of several functions cite: of a call by its kind, and of the start and a turn.
mod CallLaws
mod TurnLaws
