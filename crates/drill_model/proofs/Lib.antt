-- What the theorems about the drill's definitions cite.
mod Computed
mod LimitLaws
mod ShareLaws
mod ExcludedLaws
