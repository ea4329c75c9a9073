-- The settings of the ends in the computed lists of events.
use Rattle.stack_engine.proofs.Words.{ℕ, List, [], ◌∷◌, true, codes, INITIAL_VALUE, Eight, EndSettings}

-- the window, and the units taken before a heartbeat
abbrev settings : (window mwa own peer : ℕ) → (name peer_name : List ℕ) → EndSettings
settings window mwa own peer name peer_name =
    record {
      connection =
          record {
            client = true;
            own = own;
            peer = peer;
            n_sendmax = window;
            t_max = 1800;
            t_h = 300;
            mwa = mwa;
            pdu_limit = 4294901760;
            rule = record { length = Eight; initial_value = INITIAL_VALUE };
          };
      addressing = record { protocol = 1; own = name; peer = peer_name };
      versions = 3 ∷ [];
      checksum = [];
      channels = 2;
      n_maxpacket = 3;
      q = 4;
      t_seq = 50;
    }

abbrev pub il_of : (window mwa : ℕ) → EndSettings
il_of window mwa = settings window mwa 1 2 (codes "IL1") (codes "FE1")

abbrev pub fe_of : (window mwa : ℕ) → EndSettings
fe_of window mwa = settings window mwa 2 1 (codes "FE1") (codes "IL1")

-- with another T_max
abbrev pub with_t_max : ℕ → EndSettings → EndSettings
with_t_max t s = record s { connection = record s.connection { t_max = t } }
