-- Bytes that the HTTP grammar reads as one response.
use Rattle.std.specs.Prelude.{ℕ, ◌≤◌, List, [], ◌++◌, length}
use Rattle.httparse.specs.Grammar.{print_response}
use Rattle.http1.specs.declared.conn.Limits.{Limits}
use Rattle.http1.specs.declared.server.Server.{Server}
use Rattle.http1.specs.Body.{body_of}
use Rattle.http1.specs.Fields.{Header}
use Rattle.http1.specs.Head.{response_head}
use Rattle.http1.specs.Message.{ReadsResponseMessage}
use Rattle.http1.specs.Server.{peer_method, peer_minor}

-- whoever accepts heads and trailers of this length reads these bytes as one response to the request, with this status, these
-- fields and those that the connection adds, and this text; no byte is left
pub record IsResponse (s : Server) (status : ℕ) (reason : List ℕ) (fields : List Header) (text bytes : List ℕ) : Type 0 where
  pub added : List Header
  pub reads : (limits : Limits)
      → length (print_response (response_head (peer_minor s) status reason (fields ++ added))) ≤ limits.max_head_len
      → 2 ≤ limits.max_trailers_len
      → ReadsResponseMessage limits (peer_method s) bytes
      (record { head = response_head (peer_minor s) status reason (fields ++ added); body = body_of text [] }) []
