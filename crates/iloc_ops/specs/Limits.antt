-- How much a text may hold.
use Rattle.std.specs.Prelude.{ℕ}

-- a text has at most 16,777,216 bytes
abbrev pub MAX_INPUT : ℕ
MAX_INPUT = 16777216

-- a file has at most 65,535 blocks
abbrev pub MAX_BLOCKS : ℕ
MAX_BLOCKS = 65535

-- a block has at most 10,000 operations
abbrev pub MAX_OPS : ℕ
MAX_OPS = 10000

-- a number in a text is at most 2,147,483,647
abbrev pub MAX_NUMBER : ℕ
MAX_NUMBER = 2147483647
