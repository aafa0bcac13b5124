mod Finishing
mod Left
mod Walking
