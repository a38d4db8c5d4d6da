-- The notices in a log.
use Rattle.std.specs.Prelude.{List, [], ◌∷◌, ◌++◌}
use Rattle.station_texts.specs.declared.notice_log.NoticeLog.{NoticeLog}
use Rattle.station_texts.specs.declared.notice_log.NoticeLog as noticed
use Rattle.station_texts.specs.declared.notices.Notice.{Notice}

abbrev pub notices_of : NoticeLog → List Notice
notices_of noticed.Empty = []
notices_of (noticed.Told' marker before notice) = notices_of before ++ notice.value ∷ []
