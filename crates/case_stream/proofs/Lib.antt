mod AtHand
mod CaseSoFar
mod CutBackLaw
mod LongCase
