-- Document 01, "DER as walked": "An extension has at most 8,192 bytes and 512 elements", "down to depth 8".
use Rattle.std.specs.Prelude.{ℕ}

abbrev pub extension_bytes : ℕ
extension_bytes = 8192

abbrev pub extension_depth : ℕ
extension_depth = 8

abbrev pub extension_elements : ℕ
extension_elements = 512
