-- The walks of `src/cycle/issued.rt`.
mod EmptyStruct
