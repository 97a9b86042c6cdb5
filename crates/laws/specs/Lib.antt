-- What the requests claim of every entry (K3), every tree (K4) and every list of devices (K5), beside the rows of model.
pub mod Cache
pub mod Trees
pub mod Windows
